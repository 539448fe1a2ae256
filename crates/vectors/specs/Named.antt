-- The model of the page scheme that a case names.
use Rattle.paging.specs.Schemes.{Scheme}
use Rattle.paging.specs.RawDatas.{raw_data}
use Rattle.paging.specs.AppFiles.{app_file}
use Rattle.vectors.specs.declared.schemes.PageScheme.{PageScheme}
use Rattle.vectors.specs.declared.schemes.PageScheme.TheVariants.{RawData, AppFile}

abbrev pub model_of : PageScheme → Scheme
model_of RawData = raw_data
model_of AppFile = app_file

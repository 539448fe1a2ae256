use Rattle.fixes.proofs.Compared.{nan_is, keys_below, keys_no_later, keys_as_whole_numbers, numbers_in_units, nans_last}
use Rattle.fixes.proofs.double.keys_compare.Goals as goal

pub returns : goal.returns
returns c = record { nans = nan_is; below = keys_below; no_later = keys_no_later; whole_numbers = keys_as_whole_numbers; in_units = numbers_in_units; nans_last = nans_last }

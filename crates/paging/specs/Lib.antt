pub mod Schemes
pub mod Headers
pub mod Writes
pub mod RawDatas
pub mod AppFiles
pub mod AppLaws
pub mod RawLaws

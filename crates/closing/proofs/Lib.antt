pub mod Zeroed
pub mod NotBlank
pub mod Starts
pub mod Lacking

mod SumsError
pub mod Laws
mod TermsSettled
mod Terms

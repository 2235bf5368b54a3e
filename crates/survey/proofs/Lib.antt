pub mod TableWalks
pub mod SurveyProperties
pub mod Figures

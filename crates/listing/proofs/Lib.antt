pub mod TextSteps
pub mod Adding
pub mod Distinct
pub mod FromPlaces

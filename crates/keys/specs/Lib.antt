pub mod Station
pub mod Pair
pub mod PairLaws
pub mod StationLaws

pub mod region

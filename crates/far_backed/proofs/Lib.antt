pub mod Given
mod Numbers
mod Opening

pub mod Equal
mod After

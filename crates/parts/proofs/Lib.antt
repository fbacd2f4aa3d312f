pub mod Steps
mod Laws

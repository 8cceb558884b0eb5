pub mod Unjudged

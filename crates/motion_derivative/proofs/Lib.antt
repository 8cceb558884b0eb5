pub mod EqualAngles

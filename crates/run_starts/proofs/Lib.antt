-- Laws of a day's starting ticks, as the code works them out.
pub mod Booms
pub mod Taken
pub mod Stops
pub mod Left
pub mod Loops

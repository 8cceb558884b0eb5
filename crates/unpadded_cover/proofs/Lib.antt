pub mod Unpadded

-- Means of proof: what only says what code does, or what a proof unfolds. No promise reaches it, and nothing of it has to be believed.
pub mod Computing
pub mod Parts

pub use Rattle.cover_lean.proofs as cover_lean

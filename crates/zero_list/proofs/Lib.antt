pub use Rattle.interval.proofs.float_bits

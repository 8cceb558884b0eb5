pub mod means
pub use Rattle.box_front.specs as box_front
pub use Rattle.chain_rows.specs as chain_rows
pub use Rattle.motion_fronts.specs as motion_fronts

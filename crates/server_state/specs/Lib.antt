pub mod Inside
pub mod PoolMoves

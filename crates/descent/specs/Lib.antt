pub mod Settle
pub mod Piece
pub mod Live
pub mod Descend
pub mod Memo

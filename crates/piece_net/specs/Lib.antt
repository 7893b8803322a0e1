pub mod AcceptEvents
pub mod PieceListeners
pub mod PiecePolls

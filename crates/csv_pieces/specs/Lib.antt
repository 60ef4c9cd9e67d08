pub mod PieceReading

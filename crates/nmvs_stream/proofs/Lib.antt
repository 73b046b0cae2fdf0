pub mod LinesOfPieces

mod RepliesSteps
mod PeerSteps
mod HttpSteps
mod LineSteps
mod ConnectionLemmas
mod TurnSteps
mod MemorySteps
mod AccountSteps

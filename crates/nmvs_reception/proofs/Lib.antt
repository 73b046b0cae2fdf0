mod DeskTurns
mod RefusalLemmas
mod TurnedAway

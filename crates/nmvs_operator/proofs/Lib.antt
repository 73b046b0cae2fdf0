mod UsersFile
mod CommandLemmas
mod OrderLemmas
mod UserLines
mod ReloadLemmas
mod FaultLemmas

mod Numbers
mod Candidates
mod Short
mod Existing
mod OwnKinds
mod Methods
mod RowLemmas

mod ClauseLaws
mod LoadLaws
mod OutcomeLaws
mod OutputLaws
mod WordLaws

mod Again
mod Bounds
mod Printed
mod ReadingOn
mod RootsLaw
mod Shapes
mod Spelled
mod SummaryLaw

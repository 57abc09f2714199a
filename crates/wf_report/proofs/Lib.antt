mod Cutting
mod Entries
mod Forms
mod Orders
mod WorldLaw

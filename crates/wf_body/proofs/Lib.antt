mod Lists
mod Sites
mod Codes
mod Faults

mod Cases
mod Each
mod Reading
mod Slots

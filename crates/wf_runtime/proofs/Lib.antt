mod Same
mod SmallestWorld

mod Finding
mod Ruled
mod Screens
mod Steps
mod Delivering
mod Calls

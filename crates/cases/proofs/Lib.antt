mod Scripts
mod Histories

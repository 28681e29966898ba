mod Passing
mod Written

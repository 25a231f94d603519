mod Outcomes
mod Printing
mod Runs
mod Steps
mod OneOutput
mod WordLists
mod Scripts

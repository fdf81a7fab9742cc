mod Marks
mod Parts
mod Telling

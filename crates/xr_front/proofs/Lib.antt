mod Firsts
mod Meanings
mod OneAnswer
mod Order
mod Reading

mod Ending
mod Names
mod Rows
mod Said
mod Wanting
mod Words

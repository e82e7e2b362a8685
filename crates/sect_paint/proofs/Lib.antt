mod Cutting
mod Finding

mod Completing
mod Threads
mod Turning
mod Visiting

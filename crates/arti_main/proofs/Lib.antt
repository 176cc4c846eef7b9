mod Completes
mod Opens
mod Numbers

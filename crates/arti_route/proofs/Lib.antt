mod Steps
mod Targets
mod Routing
mod Naming

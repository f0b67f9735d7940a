mod FormsApart
mod Ended
mod SlipSteps

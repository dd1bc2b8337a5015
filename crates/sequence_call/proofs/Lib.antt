pub mod CallsTheorem

pub mod Class
pub mod Column
pub mod Laying

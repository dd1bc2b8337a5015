pub mod Limited
pub mod Site
pub mod Rows
pub mod Cut
pub mod Change
pub mod Document

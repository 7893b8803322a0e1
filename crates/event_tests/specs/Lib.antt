pub mod Accounting
pub mod Laws
pub mod Rows
pub mod Serving

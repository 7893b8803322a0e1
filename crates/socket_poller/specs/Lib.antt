pub mod Reports
pub mod SockLinks
pub mod SockListeners
pub mod SockPolls
pub mod Troubles

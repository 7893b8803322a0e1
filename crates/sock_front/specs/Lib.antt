pub mod SockFronts

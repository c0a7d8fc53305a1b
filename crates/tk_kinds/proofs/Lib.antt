pub mod FrontBytes

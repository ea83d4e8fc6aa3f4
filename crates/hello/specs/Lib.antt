pub mod HelloFault

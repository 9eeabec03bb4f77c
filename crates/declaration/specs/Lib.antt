pub mod Declaration

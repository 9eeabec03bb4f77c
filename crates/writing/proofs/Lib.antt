pub mod Headlaws
pub mod Rowlaws

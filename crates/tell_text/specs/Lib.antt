pub mod TellText

pub mod Dialogues
